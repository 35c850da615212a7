mod FrameLength
mod Steps
