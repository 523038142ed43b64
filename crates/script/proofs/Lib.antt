mod Tables
mod Chains
