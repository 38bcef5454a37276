pub mod Departure
