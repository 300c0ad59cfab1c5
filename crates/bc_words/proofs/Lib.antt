mod Numbers
mod Powers
mod Uuids
mod Commands
