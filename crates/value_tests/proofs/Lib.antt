mod GraphVectors
mod ReadingVectors
