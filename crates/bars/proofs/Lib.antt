mod Bars
