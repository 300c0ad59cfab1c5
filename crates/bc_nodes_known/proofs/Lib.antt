mod Own
mod Bare
mod Places
mod Nodes
mod Drafts
mod Vacant
mod Roots
mod Regroup
mod Beyond
mod Install
pub mod Law
