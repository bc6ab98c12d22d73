-- The files of this folder.
mod OneProgram
mod ThreeSites
