mod Frames
pub mod Outcomes
mod Pieces
mod Worlds
mod Events
mod Tabled
mod Rerouting
mod Openings
mod Away
mod Picking
mod Refusals
mod Late
mod Accounts
mod Told
mod Going
mod Booking
mod Booked
mod Settled
