mod Quads
