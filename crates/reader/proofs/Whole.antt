-- What a whole text gives: a line that is read moves on, and what is left to read gives the whole result. They rest on what one line does.
-- Assumes nothing.
use mathlib.Core.Path.{◌≡◌, refl, sym, ap, ◌∙◌, subst}
use mathlib.Core.List.{List, [], ◌∷◌}
use Prim.Native.Nat.{ℕ, zero, suc, ◌+◌, ◌-◌, ◌*◌, ◌^◌, ◌≤◌, ◌<◌}
use native.Mathlib.Nat.{le_refl}
use native.Mathlib.Omega.{arith}
use lib.ListN.{length, drop, length-replicate, length-drop}
use lib.Seq.{drop-drop}
use mir.Syntax.{w64}
use mir.Val.{Fits}
use Rattle.rules.specs.declared.Head.{Head}
use Rattle.reader.specs.declared.line.Next.{Next}
use Rattle.refusals.specs.declared.Refusal.{Refusal}
use Rattle.std.specs.Prelude.{Ok, Err}
use Rattle.refusals.specs.Sizes.{most_items, most_rules}
use Rattle.items.specs.Names.{name_room}
use Rattle.rules.specs.Table.{rule_words}
use Rattle.reader.specs.declared.line.Counts.{Counts}
use Rattle.reader.specs.Lines.{State, Result, Turn, on, stop, step, ReadBook}
use Rattle.reader.specs.Reading.{go_on, read_from, read_text}
use Rattle.reader.specs.InnerLines.{state_of, turn_of, Ready, StartsEmpty, Gives, Stepped}
use Rattle.reader.proofs.LineCases.{TurnSays, step_says}

-- A line that moves on is within the text, and counts itself.
pub record Went (st : State) (l : List ℕ) (next : State) (k : ℕ) : Type 0 where
  pub some : 1 ≤ k
  pub within : k ≤ length l
  pub lines : next.counts.lines ≡ st.counts.lines + 1

abbrev TurnWent : State → List ℕ → Turn → Type 0
TurnWent st l = TurnSays (Went st l) (λ r. Unit)

step_went : (st : State) (l : List ℕ) → TurnWent st l (step st l)
step_went st l =
    step_says st l (Went st l) (λ r. Unit)
    (record {
      refused = λ f p h. tt;
      form = λ x h. record { some = h.stands.some; within = h.stands.within; lines = refl };
      item = λ x h. record { some = h.stands.some; within = h.stands.within; lines = refl };
      rule = λ x h. record { some = h.stands.some; within = h.stands.within; lines = refl };
      end = λ x h. tt;
    })

-- Line after line: any bound on the length gives the same result.
abbrev pub read_all : State → List ℕ → Result
read_all st l = read_from (length l) st l

go_same : (f g : ℕ) (st : State) (l : List ℕ) (t : Turn) → TurnWent st l t
    → ((next : State) (k : ℕ) → 1 ≤ k → k ≤ length l → read_from f next (drop k l) ≡ read_from g next (drop k l))
    → go_on (λ next k. read_from f next (drop k l)) t ≡ go_on (λ next k. read_from g next (drop k l)) t
go_same f g st l (on next k) h s = s next k h.some h.within
go_same f g st l (stop r) h s = refl

read_bound : (f g : ℕ) (st : State) (l : List ℕ) → length l ≤ f → length l ≤ g → read_from f st l ≡ read_from g st l
unfolding read_from step
read_bound zero zero st l h i = refl
read_bound zero (suc g) st [] h i = refl
read_bound zero (suc g) st (b ∷ l) h i = absurd (omega arith)
read_bound (suc f) zero st [] h i = refl
read_bound (suc f) zero st (b ∷ l) h i = absurd (omega arith)
read_bound (suc f) (suc g) st l h i =
    go_same f g st l (step st l) (step_went st l)
    (λ next k s m. read_bound f g next (drop k l) (omega (arith, length-drop k l)) (omega (arith, length-drop k l)))

read_step : (st : State) (l : List ℕ) → read_all st l ≡ go_on (λ next k. read_all next (drop k l)) (step st l)
unfolding read_from step
read_step st [] = refl
read_step st (b ∷ l) = go (step st (b ∷ l)) (step_went st (b ∷ l))
  where
    go : (t : Turn) → TurnWent st (b ∷ l) t
        → go_on (λ next k. read_from (length l) next (drop k (b ∷ l))) t ≡ go_on (λ next k. read_all next (drop k (b ∷ l))) t
    go (on next k) w =
        read_bound (length l) (length (drop k (b ∷ l))) next (drop k (b ∷ l)) (omega (arith, w.some, length-drop k (b ∷ l))) (le_refl _)
    go (stop r) w = refl

-- The loop: what is left to read gives the whole result.
pub record Reading (text names words : List ℕ) (c : Counts) (at : ℕ) : Type 0 where
  pub ready : Ready text c names words
  pub lines : c.lines ≤ at
  pub within : at ≤ length text
  pub rest : read_text text ≡ read_all (state_of c names words) (drop at text)

names_length : {text names words : List ℕ} → StartsEmpty text names words → length names ≡ most_items * name_room
names_length s = ap length s.names_empty ∙ length-replicate {A = ℕ} (most_items * name_room) 0

words_length : {text names words : List ℕ} → StartsEmpty text names words → length words ≡ most_rules * rule_words
words_length s = ap length s.words_empty ∙ length-replicate {A = ℕ} (most_rules * rule_words) 0

-- What keeps its length through a turn has the length that it began with.
module _ {text names₀ words₀ names words : List ℕ} {c : Counts} {at : ℕ} (s : StartsEmpty text names₀ words₀) (w : Reading text names words c at) where
  pub names_kept : (names' : List ℕ) → length names' ≡ length names → length names' ≡ length names₀
  names_kept names' e = e ∙ w.ready.names_room ∙ sym (names_length s)

  pub words_kept : (words' : List ℕ) → length words' ≡ length words → length words' ≡ length words₀
  words_kept words' e = e ∙ w.ready.words_room ∙ sym (words_length s)

pub reading_none : {text names words : List ℕ} → StartsEmpty text names words
    → Reading text names words (record { lines = 0; after = 0; items = 0; rules = 0 }) 0
reading_none {text} {names} {words} s = record {
  ready = record {
    text = s.text;
    lines = omega arith;
    names_room = names_length s;
    words_room = words_length s;
  };
  lines = omega arith;
  within = omega arith;
  rest = rw (s.names_empty, s.words_empty);
}

module _ {text names words : List ℕ} {c : Counts} {at : ℕ} (w : Reading text names words c at) (r : Stepped) (names' words' : List ℕ)
    (e : turn_of r names' words' ≡ step (state_of c names words) (drop at text)) where
  pub reading_stop : {a : ReadBook} → turn_of r names' words' ≡ stop (record { answer = a; names = names'; words = words' }) → Gives text a names' words'
  reading_stop f = record {
    result = w.rest ∙ read_step (state_of c names words) (drop at text) ∙ ap (go_on (λ next k. read_all next (drop k (drop at text)))) (sym e) ∙ rw f;
  }

  pub reading_end : {h : Head} → r ≡ Ok (Next.End h) → Gives text (Ok h) names' words'
  reading_end f = reading_stop (rw f)

  pub reading_refused : {f : Refusal} → r ≡ Err f → Gives text (Err f) names' words'
  reading_refused f = reading_stop (rw f)

  module _ {d : Counts} {k : ℕ} (f : r ≡ Ok (Next.Line d k)) where
    turn : on (state_of d names' words') k ≡ step (state_of c names words) (drop at text)
    turn = rw f at e

    went : Went (state_of c names words) (drop at text) (state_of d names' words') k
    went = subst (TurnWent (state_of c names words) (drop at text)) (sym turn) (step_went (state_of c names words) (drop at text))

    pub reading_fits : length text < 2 ^ 64 → Fits w64 (at + k)
    reading_fits h = record { fits = omega (arith, went.within, length-drop at text, w.within) }

    pub reading_less : length text - (at + k) < length text - at
    reading_less = omega (arith, went.some, went.within, length-drop at text)

    pub reading_on : length names' ≡ length names → length words' ≡ length words → Reading text names' words' d (at + k)
    reading_on g h = record {
      ready = record {
        text = w.ready.text;
        lines = omega (arith, went.lines, went.some, went.within, length-drop at text, w.lines, w.ready.text);
        names_room = g ∙ w.ready.names_room;
        words_room = h ∙ w.ready.words_room;
      };
      lines = omega (arith, went.lines, went.some, w.lines);
      within = omega (arith, went.within, length-drop at text, w.within);
      rest =
          w.rest
          ∙ read_step (state_of c names words) (drop at text)
          ∙ ap (go_on (λ next j. read_all next (drop j (drop at text)))) (sym turn)
          ∙ ap (read_all (state_of d names' words')) (drop-drop k at text);
    }
