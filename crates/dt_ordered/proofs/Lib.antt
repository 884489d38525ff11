mod Reversals
