-- What a proof that computes has to open, each list once: a line `unfolding rules` opens all that the line of `rules` names.
-- A definition that is added to house/specs joins its list here; .ci/names says which is missing.
-- Assumes nothing.
use Rattle.house.specs.Search.{scan, map_from}
use Rattle.house.specs.Cell.{has, marked, unmarked, cell_at, with_mark, map_cells, holds, another_holds, is_signalled, first_signalled, count_signalled}
use Rattle.house.specs.Matrix.{read_lock}
use Rattle.house.specs.House.{dominates, above, fixed, free_at, has_ticket, seek, vacancy}
use Rattle.house.specs.Order.{old_chain, diamond, large, loose, tied, broken, wrong_at, disordered}
use Rattle.house.specs.Rules.{no_operation, no_level, unused_set, unknown, no_item, forbidden, blank_sheet, stopped, untimely, worn_out, crowded, ticketless, another_claims, peer_reads, hinders, wants, holder_on, conflict, delayed, refusals, checks, verdict, ticket_after, grown, begun, read_by, read_answer, written_by, wrote, signalled_cell, signalled, converted_cell, certified_by, dropped_pending, cleared_cell, left, committed_item, ask_answer, served, performed, unserved, stepped}
use Rattle.house.specs.Opening.{wrong_count, high_at, wrong_level, wrong_table, open_verdict, row_at, rows, opened, opening}
use Rattle.house.specs.Run.{finally, replies, trace}

-- the list of the checks, and the test of each
unfoldable pub tests : Unit {0}
unfolding refusals checks no_operation no_level unused_set unknown no_item forbidden blank_sheet stopped untimely worn_out crowded ticketless delayed
tests = tt

-- the searches, the cells and the tests that these are made of
parts : Unit {0}
unfolding scan map_from has marked unmarked cell_at with_mark map_cells holds another_holds is_signalled first_signalled count_signalled dominates above fixed free_at has_ticket seek vacancy another_claims peer_reads hinders wants holder_on conflict read_lock
parts = tt

-- what is done of each request, and its answer
effects : Unit {0}
unfolding ticket_after grown begun read_by read_answer written_by wrote signalled_cell signalled converted_cell certified_by dropped_pending cleared_cell left committed_item ask_answer served performed unserved stepped
effects = tt

openings : Unit {0}
unfolding wrong_count high_at wrong_level wrong_table large loose tied broken wrong_at disordered old_chain diamond open_verdict row_at rows opened opening
openings = tt

-- all of them, and a run
unfoldable pub rules : Unit {0}
unfolding tests verdict parts effects openings finally replies trace
rules = tt
