mod Refilling
