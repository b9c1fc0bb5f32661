mod Packs
