pub mod Laying
pub mod Reading
