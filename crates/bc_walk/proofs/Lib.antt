pub mod OneFault
pub mod OneWay
pub mod Flags
pub mod Nodes
pub mod Goes
pub mod Trees
