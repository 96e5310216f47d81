pub mod Pressures
