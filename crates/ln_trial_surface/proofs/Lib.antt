-- The files of this folder.
mod OneIsProgram
