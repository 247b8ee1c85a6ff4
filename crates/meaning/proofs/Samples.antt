-- The scripts with known results, as trees.
use Rattle.std.proofs.Common.{◌≡◌, ℕ, true, List, [], ◌∷◌, pos, negsuc, codes, refl, arith}
use mathlib.Core.Option.{Option, none, some}
use Rattle.boards.specs.Meaning.{Meaning}
use Rattle.meaning.specs.declared.operator.Scalar.TheVariants.{Char as char, Int as int}
use Rattle.meaning.specs.declared.operator.Operator.TheVariants.{Add, Divide, Less}
use Rattle.meaning.specs.Trees.{Ident, Expr, constant, number, character, truth, variable, binary, plus, block, define, modify, if_then, while, for_to, continue, return, Stmts, nil, cons, Item, extern, global, Script}
use Rattle.std.specs.Int.{int_wrap}
use Rattle.lexer.specs.Lexeme.{Lexeme}
use Rattle.lexer.specs.Reading.{reading}
use Rattle.refusal.specs.Told.{accepted, refused}
use Rattle.meaning.specs.Written.{script_lexemes, head_lexemes, items_lexemes, stmt_lexemes, expr_lexemes}
use Rattle.meaning.specs.Depths.{script_depths, items_depths, stmt_depths, expr_depths, greatest}
use Rattle.meaning.specs.Scopes.{lookup, defined_here, same_name, cells, leave, assigned}
use Rattle.meaning.specs.Check.{check_script, check_items, check_item, check_stmt, type_of, then, needs, there, needs_type, defined, room, as_variable}
use Rattle.meaning.specs.Values.{apply, arithmetic, division, relation, short_circuit}
use Rattle.meaning.specs.Run.{returned, waiting, divided, run_script, start, declare_items, run, eval, then_eval, result, read_variable, operate, given, then_flow, choose, as_int, leaving, outside, in_level, store, defining, spend, again, loop, looping, after_body, counting, below, adding, while_round, for_round, finished}
use Rattle.meaning.specs.Sources.{Reads, Refuses, Unfinished}
use Rattle.meaning.specs.Known.{ComesTo, KnownResults}

abbrev name : List ℕ → ℕ → Ident
name bs p = record { bytes = bs; place = p }

abbrev num : ℕ → ℕ → Expr
num v p = constant (number (pos v) p)

-- a script without items, whose main begins at 0
abbrev plain : Stmts → ℕ → Script
plain ss q = record { items = []; static = none; marks = (0, 4, 8, 9, 10); body = ss; close = q }

-- what reading a source, checking a tree and running it compute with
reading_opened : Unit {0}
unfolding reading script_lexemes items_lexemes stmt_lexemes expr_lexemes script_depths items_depths stmt_depths expr_depths greatest
reading_opened = tt

check_opened : Unit {0}
unfolding check_script check_items check_item check_stmt type_of then needs there needs_type defined room as_variable lookup defined_here same_name cells
check_opened = tt

run_opened : Unit {0}
unfolding run_script start declare_items run eval then_eval result read_variable operate given then_flow choose as_int leaving outside in_level store defining spend again loop looping after_body counting below adding while_round for_round finished lookup leave assigned same_name apply arithmetic division relation short_circuit int_wrap
run_opened = tt

abbrev wraps_script : Script
wraps_script = plain (cons (return 11 (binary Add 28 (num 2147483647 18) (num 1 29)) 30) nil) 31

wraps_reads : Reads (codes "int main(){return 2147483647+1;}") wraps_script
unfolding reading_opened
wraps_reads = record { short = omega arith; whole = refl; script = record { reads = record { grammatical = omega arith; lexemes = refl }; shallow = omega arith } }

wraps_checks : check_script wraps_script ≡ accepted tt
unfolding check_opened
wraps_checks = refl

wraps_comes : (b : Meaning) → run_script wraps_script b 0 ≡ record { ending = returned (negsuc 2147483647); place = 11; spent = 0; board = b }
unfolding run_opened
wraps_comes b = refl

pub wraps : ComesTo (codes "int main(){return 2147483647+1;}") 0 (returned (negsuc 2147483647)) 11 0
wraps = record { script = wraps_script; means = record { reads = wraps_reads; checked = wraps_checks }; comes = wraps_comes }

abbrev divides_script : Script
divides_script = plain (cons (return 11 (binary Divide 19 (num 1 18) (num 0 20)) 21) nil) 22

divides_reads : Reads (codes "int main(){return 1/0;}") divides_script
unfolding reading_opened
divides_reads = record { short = omega arith; whole = refl; script = record { reads = record { grammatical = omega arith; lexemes = refl }; shallow = omega arith } }

divides_checks : check_script divides_script ≡ accepted tt
unfolding check_opened
divides_checks = refl

divides_comes : (b : Meaning) → run_script divides_script b 0 ≡ record { ending = divided; place = 19; spent = 0; board = b }
unfolding run_opened
divides_comes b = refl

pub divides : ComesTo (codes "int main(){return 1/0;}") 0 (divided) 19 0
divides = record { script = divides_script; means = record { reads = divides_reads; checked = divides_checks }; comes = divides_comes }

abbrev waits_script : Script
waits_script = plain (cons (while 11 (16, 21) (constant (truth true 17)) (block (22, 23) nil)) nil) 24

waits_reads : Reads (codes "int main(){while(true){}}") waits_script
unfolding reading_opened
waits_reads = record { short = omega arith; whole = refl; script = record { reads = record { grammatical = omega arith; lexemes = refl }; shallow = omega arith } }

waits_checks : check_script waits_script ≡ accepted tt
unfolding check_opened
waits_checks = refl

waits_comes : (b : Meaning) → run_script waits_script b 5 ≡ record { ending = waiting; place = 11; spent = 5; board = b }
unfolding run_opened
waits_comes b = refl

pub waits : ComesTo (codes "int main(){while(true){}}") 5 (waiting) 11 5
waits = record { script = waits_script; means = record { reads = waits_reads; checked = waits_checks }; comes = waits_comes }

abbrev twice_script : Script
twice_script = plain (cons (define int (11, 16, 18) (name (codes "i") 15) (num 1 17)) (cons (define int (19, 24, 26) (name (codes "i") 23) (num 2 25)) nil)) 27

twice_reads : Reads (codes "int main(){int i=1;int i=2;}") twice_script
unfolding reading_opened
twice_reads = record { short = omega arith; whole = refl; script = record { reads = record { grammatical = omega arith; lexemes = refl }; shallow = omega arith } }

twice_checks : check_script twice_script ≡ refused 12 23
unfolding check_opened
twice_checks = refl

pub twice : Refuses (codes "int main(){int i=1;int i=2;}") 12 23
twice = record { script = twice_script; reads = twice_reads; checked = twice_checks }

abbrev outer_script : Script
outer_script = record {
  items = global none (0, 5, 7) int (name (codes "i") 4) (number (pos 2) 6) ∷ [];
  static = none;
  marks = (8, 12, 16, 17, 18);
  body = cons (define int (19, 24, 26) (name (codes "i") 23) (variable (name (codes "i") 25))) (cons (return 27 (variable (name (codes "i") 34)) 35) nil);
  close = 36;
}

outer_reads : Reads (codes "int i=2;int main(){int i=i;return i;}") outer_script
unfolding reading_opened
outer_reads = record { short = omega arith; whole = refl; script = record { reads = record { grammatical = omega arith; lexemes = refl }; shallow = omega arith } }

outer_checks : check_script outer_script ≡ accepted tt
unfolding check_opened
outer_checks = refl

outer_comes : (b : Meaning) → run_script outer_script b 0 ≡ record { ending = returned (pos 2); place = 27; spent = 0; board = b }
unfolding run_opened
outer_comes b = refl

pub outer : ComesTo (codes "int i=2;int main(){int i=i;return i;}") 0 (returned (pos 2)) 27 0
outer = record { script = outer_script; means = record { reads = outer_reads; checked = outer_checks }; comes = outer_comes }

abbrev mixed_script : Script
mixed_script = plain (cons (return 11 (binary Add 19 (num 1 18) (constant (truth true 20))) 24) nil) 25

mixed_reads : Reads (codes "int main(){return 1+true;}") mixed_script
unfolding reading_opened
mixed_reads = record { short = omega arith; whole = refl; script = record { reads = record { grammatical = omega arith; lexemes = refl }; shallow = omega arith } }

mixed_checks : check_script mixed_script ≡ refused 15 19
unfolding check_opened
mixed_checks = refl

pub mixed : Refuses (codes "int main(){return 1+true;}") 15 19
mixed = record { script = mixed_script; reads = mixed_reads; checked = mixed_checks }

abbrev narrow_script : Script
narrow_script = plain (cons (define char (11, 17, 21) (name (codes "c") 16) (constant (character (pos 97) 18))) (cons (modify plus (name (codes "c") 22) 23 (variable (name (codes "c") 25)) 26) (cons (if_then 27 (29, 36) (binary Less 31 (variable (name (codes "c") 30)) (constant (character (pos 0) 32))) (return 37 (num 1 44) 45)) nil))) 46

narrow_reads : Reads (codes "int main(){char c='a';c+=c;if(c<'\\0')return 1;}") narrow_script
unfolding reading_opened
narrow_reads = record { short = omega arith; whole = refl; script = record { reads = record { grammatical = omega arith; lexemes = refl }; shallow = omega arith } }

narrow_checks : check_script narrow_script ≡ accepted tt
unfolding check_opened
narrow_checks = refl

narrow_comes : (b : Meaning) → run_script narrow_script b 0 ≡ record { ending = returned (pos 1); place = 37; spent = 0; board = b }
unfolding run_opened
narrow_comes b = refl

pub narrow : ComesTo (codes "int main(){char c='a';c+=c;if(c<'\\0')return 1;}") 0 (returned (pos 1)) 37 0
narrow = record { script = narrow_script; means = record { reads = narrow_reads; checked = narrow_checks }; comes = narrow_comes }

abbrev counts_script : Script
counts_script = plain (cons (for_to 11 (14, 15, 20, 23, 27) (name (codes "i") 19) (num 0 21) (num 3 26) (continue 28 36)) nil) 37

counts_reads : Reads (codes "int main(){for(int i=0 to 3)continue;}") counts_script
unfolding reading_opened
counts_reads = record { short = omega arith; whole = refl; script = record { reads = record { grammatical = omega arith; lexemes = refl }; shallow = omega arith } }

counts_checks : check_script counts_script ≡ accepted tt
unfolding check_opened
counts_checks = refl

counts_comes : (b : Meaning) → run_script counts_script b 1000 ≡ record { ending = returned (pos 0); place = 37; spent = 4; board = b }
unfolding run_opened
counts_comes b = refl

pub counts : ComesTo (codes "int main(){for(int i=0 to 3)continue;}") 1000 (returned (pos 0)) 37 4
counts = record { script = counts_script; means = record { reads = counts_reads; checked = counts_checks }; comes = counts_comes }

-- no script has no lexemes

cons-nil : {X P : Type 0} {x : X} {xs : List X} → x ∷ xs ≡ [] → P
cons-nil e = let z : ◌≡◌ {A = ℕ} 0 1 = cc in absurd (omega arith)

head_some : (o : Option ℕ) (q : ℕ × ℕ × ℕ × ℕ × ℕ) (r : List Lexeme) → head_lexemes o q r ≡ [] → ⊥
head_some none q r e = cons-nil e
head_some (some p) q r e = cons-nil e

items_some : (is : List Item) (o : Option ℕ) (q : ℕ × ℕ × ℕ × ℕ × ℕ) (r : List Lexeme) → items_lexemes is (head_lexemes o q r) ≡ [] → ⊥
unfolding items_lexemes
items_some [] o q r e = head_some o q r e
items_some (extern m t x a ∷ is) o q r e = cons-nil e
items_some (global none m t x c ∷ is) o q r e = cons-nil e
items_some (global (some p) m t x c ∷ is) o q r e = cons-nil e

pub nothing : Unfinished (codes "")
unfolding reading script_lexemes
nothing = record {
  whole = refl;
  early = record {
    script = plain nil 11;
    before = record { grammatical = tt; rest = script_lexemes (plain nil 11); lexemes = refl };
    shallow = λ j h. absurd (omega arith);
    unfinished = λ s h. items_some s.items s.static s.marks _ h.lexemes;
  };
}

pub known_results : KnownResults
known_results = record {
  nothing = nothing;
  wraps = wraps;
  divides = divides;
  waits = waits;
  twice = twice;
  outer = outer;
  mixed = mixed;
  narrow = narrow;
  counts = counts;
}
