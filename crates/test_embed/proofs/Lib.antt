mod Answered
mod Names
