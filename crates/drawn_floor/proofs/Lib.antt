mod Lamps
