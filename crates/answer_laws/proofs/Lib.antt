mod SameLemmas
