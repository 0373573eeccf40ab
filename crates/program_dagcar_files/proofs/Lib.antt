mod Apart
mod Getting
mod Same
mod Indexed
mod Asking
mod Leading
