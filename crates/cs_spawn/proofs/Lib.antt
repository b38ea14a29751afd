mod Going
mod Plans
mod Steps
mod Left
