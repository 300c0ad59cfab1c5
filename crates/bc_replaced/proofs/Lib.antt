mod Fresh
mod Pointing
mod Making
mod After
mod Taking
mod Asking
mod Replacing
mod Leaves
