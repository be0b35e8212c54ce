mod FourOfFive
