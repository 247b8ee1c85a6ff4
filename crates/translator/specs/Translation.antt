-- What becomes of a source that is handed over with a token list and a code list.
use Rattle.std.specs.Prelude.{◌≡◌, ℕ, ◌*◌, ◌<◌, ◌≤◌, cond, List, ◌++◌, length, drop, nat_lt}
use Rattle.refusal.specs.Told.{Told, accepted, refused}
use Rattle.lexer.specs.Reading.{reading, source_limit, token_limit, none, fault, written}
use Rattle.lexer.specs.declared.kind.Token.{Token}
use Rattle.meaning.specs.Trees.{Script}
use Rattle.meaning.specs.Written.{script_lexemes}
use Rattle.meaning.specs.Sources.{lexemes_of, Means, Refuses}
use Rattle.parser.specs.Verdict.{Wrong}
use Rattle.machine.specs.declared.instruction.Instruction.{Instruction}
use Rattle.layout.specs.Faithful.{Faithful}
use Rattle.translator.specs.declared.counts.Counts.{Counts}

-- the fewest records of a code list
abbrev pub code_limit : ℕ
code_limit = 4096

-- a source of a length that is read, and lists that are long enough, by the number of their records
pub record Sized (source : List ℕ) (room slots : ℕ) : Type 0 where
  pub bytes : length source ≤ source_limit
  pub tokens : token_limit ≤ room
  pub code : code_limit ≤ slots

-- Why a source is refused, with which number and place: it is too long, or a list too short; else a fault of its tokens; else
-- one of the grammar; else it is a script that the check refuses.
pub data Refused (source : List ℕ) (room slots : ℕ) : (number place : ℕ) → Type 0 where
  long : source_limit < length source → Refused source room slots 1 0
  few_tokens : length source ≤ source_limit → room < token_limit → Refused source room slots 2 0
  few_records : length source ≤ source_limit → token_limit ≤ room → slots < code_limit → Refused source room slots 3 0
  unread : {n p : ℕ} → Sized source room slots → (reading source).fault ≡ fault n p → Refused source room slots n p
  wrong : {n p : ℕ} → Sized source room slots → (reading source).fault ≡ none → Wrong (lexemes_of source) (length source) n p → Refused source room slots n p
  unfit : {n p : ℕ} → Sized source room slots → Refuses source n p → Refused source room slots n p

-- The first n records of a code list are code that is faithful to the script, of at most four instructions a token; the
-- further records are as they were.
pub record Coded (s : Script) (before after : List Instruction) (n : ℕ) : Type 0 where
  pub code : List Instruction
  pub count : length code ≡ n
  pub fits : n ≤ length before
  pub list : after ≡ code ++ drop n before
  pub faithful : Faithful code s
  pub few : n ≤ 4 * length (script_lexemes s)

-- a source is taken: it means a script, and both lists are filled
pub record Taken (source : List ℕ) (room : ℕ) (before after : List Instruction) (c : Counts) : Type 0 where
  pub sized : Sized source room (length before)
  pub script : Script
  pub means : Means source script
  pub tokens : c.tokens ≡ length (reading source).tokens
  pub coded : Coded script before after c.code

-- What is told of a source, by the number of token records and the code list before and after: it is taken, or refused with
-- the code list untouched.
abbrev pub Translation : List ℕ → ℕ → List Instruction → List Instruction → Told Counts → Type 0
Translation source room before after (accepted c) = Taken source room before after c
Translation source room before after (refused n p) = (after ≡ before) × Refused source room (length before) n p

-- the token list afterwards: untouched where a length was refused, else it begins with the tokens that were read
abbrev pub tokens_after : List ℕ → ℕ → List Token → List Token
tokens_after source slots list =
    cond (nat_lt source_limit (length source)) list (cond (nat_lt (length list) token_limit) list (cond (nat_lt slots code_limit) list (written (reading source).tokens list)))

-- At most one refusal holds of a source and lists of these lengths, and none where the source means a script and the lists
-- are long enough; so a source is accepted exactly when it does.
pub record OneAnswer : Type 0 where
  pub one : (source : List ℕ) (room slots n p m q : ℕ) → Refused source room slots n p → Refused source room slots m q → (n ≡ m) × (p ≡ q)
  pub none : (source : List ℕ) (room slots n p : ℕ) (s : Script) → Sized source room slots → Means source s → Refused source room slots n p → ⊥
