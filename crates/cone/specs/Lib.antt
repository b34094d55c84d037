pub mod Cone
