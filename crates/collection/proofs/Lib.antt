mod Answering
mod Lines
mod Closing
