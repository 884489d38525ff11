mod Lists
mod Present
mod Found
mod Settled
mod Kept
