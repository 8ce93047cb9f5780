-- What is claimed of the definitions: one statement for each sentence of the three demands, each proved by a law from Laws/.
--   1. Every question takes any input, ends and relies on nothing from its caller, and a refusal changes nothing (Refusals).
--   2. An image is accepted exactly when it keeps the rules (Acceptance, Clashes), and then rows, bill and bodies are those the headers
--      state (Rows); owners, of document 02, CR 1, are those that the image headers state (Owners).
--   3. Loading the accepted partitions in any order gives one memory, no address written twice, and the bill is the count of
--      positions in at least one span (Memory).
-- Answers has the demands' sentences whole, of the answers of read, bill, body and the host's calls; Cases has limits, the program's input
-- and the starred cases.
-- That the questions take any input and end is in their being functions of any list of bytes, place and row buffer (Answers.antt).
-- `rs` is any list of rules, so that such a claim holds of every question that has the rules it names; what is claimed of plain reading's
-- answers holds of any question whose own rules are as Supported.antt says, by the same laws. Assumes nothing.
pub mod Acceptance
pub mod Answers
pub mod Cases
pub mod Clashes
pub mod Memory
pub mod Owners
pub mod Refusals
pub mod Rows
