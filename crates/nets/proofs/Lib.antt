mod TextFaults
