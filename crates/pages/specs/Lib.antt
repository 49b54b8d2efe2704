pub mod bytes
