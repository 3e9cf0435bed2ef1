-- A token of a formula or of a value.
use Rattle.std.proofs.Common.{◌≡◌, Bool, true, false, List, Option, refl}
use Rattle.rg_syntax.specs.Written.{Term, Claim}
use Rattle.rg_build.specs.Frames.{Piece, Open}
use Rattle.rg_build.specs.Inner.Drafts.{ReadFor, a_program_clause, a_part_clause, an_assignment, a_guard, an_act, a_branch_test, a_loop_test, PlaceSoFar, Drafted, after_program_clause, after_part_clause, and_clause, with_claim, with_term, with_item, settled}
use Rattle.rg_text.specs.Text.{Leaf}

pub taken : (d : Drafted) (w : ReadFor) (os us ns : List Open) (item one : Option Piece) → us ≡ os → settled d w us ≡ with_item d w item ns → item ≡ one → with_item d w one ns ≡ settled d w os
taken d w os us ns item one a b e = cc

-- where it was read makes no difference
program_placeless : (d : Drafted) (p : PlaceSoFar) (b : Bool) → after_program_clause d b ≡ after_program_clause (record d { place = p }) b
program_placeless d p true = refl
program_placeless d p false = refl

part_placeless : (d : Drafted) (p : PlaceSoFar) (n : Leaf) (b : Bool) → after_part_clause d n b ≡ after_part_clause (record d { place = p }) n b
part_placeless d p n true = refl
part_placeless d p n false = refl

pub claim_placeless : (d : Drafted) (p : PlaceSoFar) (w : ReadFor) (f : Claim) → with_claim d w f ≡ with_claim (record d { place = p }) w f
claim_placeless d p a_program_clause f = program_placeless (record d { clauses = and_clause d.clauses f }) p _
claim_placeless d p (a_part_clause n) f = part_placeless (record d { part_clauses = and_clause d.part_clauses f }) p n _
claim_placeless d p (an_assignment n x) f = refl
claim_placeless d p (a_guard n i) f = refl
claim_placeless d p (an_act n i x) f = refl
claim_placeless d p (a_branch_test n i) f = refl
claim_placeless d p (a_loop_test n i) f = refl

pub term_placeless : (d : Drafted) (p : PlaceSoFar) (w : ReadFor) (a : Term) → with_term d w a ≡ with_term (record d { place = p }) w a
term_placeless d p a_program_clause a = refl
term_placeless d p (a_part_clause n) a = refl
term_placeless d p (an_assignment n x) a = refl
term_placeless d p (a_guard n i) a = refl
term_placeless d p (an_act n i x) a = refl
term_placeless d p (a_branch_test n i) a = refl
term_placeless d p (a_loop_test n i) a = refl
