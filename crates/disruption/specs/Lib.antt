pub mod Calendars
pub mod Tables
