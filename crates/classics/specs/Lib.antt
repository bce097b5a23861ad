-- What the functions of FIFO, CLOCK and LRU need of the words that they are given, and what they make of them.
pub mod Queues
