-- What the laws of the hosts rest on.
pub mod HostBytes
