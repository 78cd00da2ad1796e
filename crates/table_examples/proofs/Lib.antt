pub mod Cidr
pub mod Trie
pub mod Rib
pub mod Diff
pub mod Fib
pub mod Readers
