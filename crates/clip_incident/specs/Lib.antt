pub mod Incident
