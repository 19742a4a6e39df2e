mod Places
mod Asking
mod Written
pub mod Tables
mod Read
mod Live
