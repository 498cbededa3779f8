-- Laws of announce and root request. An ask uses those of a request.
pub mod Originated
