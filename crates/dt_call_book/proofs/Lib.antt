mod PortKinds
mod Told
