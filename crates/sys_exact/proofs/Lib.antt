mod Each
mod Turns
mod Paused
mod Starts
mod Taken
mod Given
mod Booted
mod Events
