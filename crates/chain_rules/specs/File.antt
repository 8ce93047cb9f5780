-- The file of a chain: its image, with the place of its table. Assumes nothing.
use Rattle.pdi_spec.specs.File.{File}
use Rattle.chain_rules.specs.Chain.{file_of}
use Rattle.chain_rules.specs.declared.chain.Chain.{Chain}

abbrev pub file_of_chain : Chain → File
file_of_chain chain = file_of chain.image.now chain.table
