pub mod Turning
