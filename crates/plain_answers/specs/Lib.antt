pub mod Stateless
