mod NumberWords
