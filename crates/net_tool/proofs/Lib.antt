mod Headlines
mod OneAnswer
mod Completed
