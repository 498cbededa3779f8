mod CommandOctets
