mod BootLemmas
