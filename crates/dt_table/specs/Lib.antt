pub mod Places
pub mod Agendas
pub mod Tables
pub mod Firsts
