mod Rows
mod Walks
mod Turns
mod Looks
mod Readings
mod Parses
mod FewNets
