-- Arguments, part by part.
use Rattle.std.proofs.Common.{◌≡◌, ℕ, ◌-◌, ◌==◌, ◌||◌, Bool, true, false, cond, not, List, [], ◌∷◌, ◌++◌, length, take}
use Rattle.std.proofs.Common.{Option, Some, refl, ap, sym, ◌∙◌, append_assoc, append-nil, arith}
use Rattle.std.specs.Int.{is_in_range}
use Rattle.std.specs.List.{list_all, prefix_len}
use Rattle.std.proofs.lemmas.Bool.{false≢true, and_parts, or_parts}
use Rattle.std.proofs.lemmas.List.{take_all, reverse-append}
use Rattle.rule_syntax.specs.Arguments.{rune_pieces, named, reader, with_rune, plain, quoted, dollar, naming, step_at}
use Rattle.rule_syntax.specs.Arguments.{step, reads, ended_at, ended, text_pieces}
use Rattle.rule_syntax.specs.Laws.{doubled, quoted_text, is_plain_rune, is_name, begins, and_then, ReadsParts}
use Rattle.rule_syntax.specs.Laws.{ReadsTexts}
use Rattle.rule_syntax.specs.Words.{is_blank, is_digit, is_name_rune, trimmed}
use Rattle.rule_syntax.specs.declared.rule.Late.TheVariants as late
use Rattle.rule_syntax.specs.declared.rule.Piece.{Piece}
use Rattle.rule_syntax.specs.declared.rule.Piece.TheVariants as piece
use Rattle.rule_syntax.specs.declared.rule.Var.{Var}
use Rattle.rule_syntax.specs.declared.argument.Mode.{Mode}
use Rattle.rule_syntax.specs.declared.argument.Mode.TheVariants.{Plain, Quoted, Closed, Dollar, Name}
use Rattle.rule_syntax.specs.declared.argument.Reader.{Reader}

module _ (vars : List Var) where
  -- ---- what was read before stands in front

  abbrev in_front : List Piece → Reader → Reader
  in_front p r = reader (p ++ r.pieces) r.mode

  choice : (p : List Piece) (b : Bool) (x y u v : Reader) → x ≡ in_front p u → y ≡ in_front p v
      → cond b x y ≡ in_front p (cond b u v)
  choice p true x y u v e f = e
  choice p false x y u v e f = f

  more_runes : (p q : List Piece) (c : ℕ) (m : Mode) → reader (with_rune (p ++ q) c) m ≡ in_front p
      (reader (with_rune q c) m)
  more_runes p q c m = ap (λ (l : List Piece). reader l m) (append_assoc p q (piece.Rune c ∷ []))

  plain_after : (p q : List Piece) (c : ℕ) → plain (p ++ q) c ≡ in_front p (plain q c)
  plain_after p q c = choice p (c == 39) _ _ (reader q Quoted) _ refl
      (choice p (c == 36) _ _ (reader q Dollar) (reader (with_rune q c) Plain) refl (more_runes p q c Plain))

  dollar_after : (p q : List Piece) (c : ℕ) → dollar (p ++ q) c ≡ in_front p (dollar q c)
  dollar_after p q c =
      choice p (is_digit c) _ _ (reader (q ++ piece.Late (late.Group (c - 48)) ∷ []) Plain) _
      (ap (λ (l : List Piece). reader l Plain) (append_assoc p q (piece.Late (late.Group (c - 48)) ∷ [])))
      (choice p (is_name_rune c) _ _ (reader q (Name (c ∷ []))) (plain (with_rune q 36) c) refl
      (ap (λ (l : List Piece). plain l c) (append_assoc p q (piece.Rune 36 ∷ [])) ∙ plain_after p (with_rune q 36) c))

  naming_after : (p q : List Piece) (name : List ℕ) (c : ℕ) → naming vars (p ++ q) name c ≡ in_front p
      (naming vars q name c)
  naming_after p q name c =
      choice p (is_name_rune c) _ _ (reader q (Name (name ++ c ∷ []))) (plain (q ++ named vars name) c) refl
      (ap (λ (l : List Piece). plain l c) (append_assoc p q (named vars name)) ∙ plain_after p (q ++ named vars name) c)

  step_after : (p q : List Piece) (m : Mode) (c : ℕ) → step_at m vars (p ++ q) c ≡ in_front p (step_at m vars q c)
  step_after p q Plain c = plain_after p q c
  step_after p q Quoted c = choice p (c == 39) _ _ (reader q Closed) (reader (with_rune q c) Quoted) refl
      (more_runes p q c Quoted)
  step_after p q Closed c = choice p (c == 39) _ _ (reader (with_rune q c) Quoted) (plain q c) (more_runes p q c Quoted)
      (plain_after p q c)
  step_after p q Dollar c = dollar_after p q c
  step_after p q (Name name) c = naming_after p q name c

  reads_after : (p : List Piece) (r : Reader) (text : List ℕ) → reads vars (in_front p r) text ≡ in_front p
      (reads vars r text)
  reads_after p r [] = refl
  reads_after p r (c ∷ cs) = ap (λ (s : Reader). reads vars s cs) (step_after p r.pieces r.mode c)
      ∙ reads_after p (step vars r c) cs

  ended_after : (p q : List Piece) (m : Mode) → ended_at m vars (p ++ q) ≡ and_then p (ended_at m vars q)
  ended_after p q Plain = refl
  ended_after p q Quoted = refl
  ended_after p q Closed = refl
  ended_after p q Dollar = ap (λ (l : List Piece). Some l) (append_assoc p q (piece.Rune 36 ∷ []))
  ended_after p q (Name name) = ap (λ (l : List Piece). Some l) (append_assoc p q (named vars name))

  -- the text that is read on from there
  abbrev told : Reader → List ℕ → Option (List Piece)
  told r text = ended vars (reads vars r text)

  rest_after : (p : List Piece) (rest : List ℕ) → told (reader p Plain) rest ≡ and_then p (text_pieces vars rest)
  rest_after p rest =
      ap (λ (l : List Piece). told (reader l Plain) rest) (sym (append-nil p))
      ∙ ap (ended vars) (reads_after p (reader [] Plain) rest)
      ∙ ended_after p (reads vars (reader [] Plain) rest).pieces (reads vars (reader [] Plain) rest).mode

  -- ---- quotes

  quote_or_rune : (p : List Piece) (c : ℕ) (cs more : List ℕ) (b : Bool)
      → (c == 39) ≡ b → reads vars (reader p Quoted) (cond b (c ∷ c ∷ cs) (c ∷ cs) ++ more) ≡ reads vars
      (reader (with_rune p c) Quoted) (cs ++ more)
  quote_or_rune p c cs more true h =
      ap (λ (t : Bool). reads vars (cond t (reader p Closed) (reader (with_rune p c) Quoted)) (c ∷ cs ++ more)) h
      ∙ ap (λ (t : Bool). reads vars (cond t (reader (with_rune p c) Quoted) (plain p c)) (cs ++ more)) h
  quote_or_rune p c cs more false h = ap (λ (t : Bool). reads vars
      (cond t (reader p Closed) (reader (with_rune p c) Quoted)) (cs ++ more)) h

  in_quotes : (p : List Piece) (text rest : List ℕ) → reads vars (reader p Quoted)
      (doubled text ++ 39 ∷ rest) ≡ reads vars (reader (p ++ rune_pieces text) Closed) rest
  in_quotes p [] rest = ap (λ (l : List Piece). reads vars (reader l Closed) rest) (sym (append-nil p))
  in_quotes p (c ∷ cs) rest =
      quote_or_rune p c (doubled cs) (39 ∷ rest) (c == 39) refl
      ∙ in_quotes (with_rune p c) cs rest
      ∙ ap (λ (l : List Piece). reads vars (reader l Closed) rest) (append_assoc p (piece.Rune c ∷ []) (rune_pieces cs))

  after_quotes : (p : List Piece) (rest : List ℕ) → begins (λ c. c == 39) rest ≡ false → told (reader p Closed)
      rest ≡ told (reader p Plain) rest
  after_quotes p [] h = refl
  after_quotes p (c ∷ cs) h = ap (λ (t : Bool). told (cond t (reader (with_rune p c) Quoted) (plain p c)) cs) h

  quoted_part : (text rest : List ℕ) → begins (λ c. c == 39) rest ≡ false → text_pieces vars
      (quoted_text text ++ rest) ≡ and_then (rune_pieces text) (text_pieces vars rest)
  quoted_part text rest h =
      ap (told (reader [] Quoted)) (append_assoc (doubled text) (39 ∷ []) rest)
      ∙ ap (ended vars) (in_quotes [] text rest)
      ∙ after_quotes (rune_pieces text) rest h
      ∙ rest_after (rune_pieces text) rest

  -- ---- other runes

  plain_rune : (p : List Piece) (c : ℕ) (b d : Bool) → not (b || d) ≡ true → cond b (reader p Quoted)
      (cond d (reader p Dollar) (reader (with_rune p c) Plain)) ≡ reader (with_rune p c) Plain
  plain_rune p c true d h = absurd (false≢true h)
  plain_rune p c false true h = absurd (false≢true h)
  plain_rune p c false false h = refl

  in_plain : (p : List Piece) (text rest : List ℕ) → list_all is_plain_rune text ≡ true → reads vars (reader p Plain)
      (text ++ rest) ≡ reads vars (reader (p ++ rune_pieces text) Plain) rest
  in_plain p [] rest h = ap (λ (l : List Piece). reads vars (reader l Plain) rest) (sym (append-nil p))
  in_plain p (c ∷ cs) rest h =
      let two = and_parts (is_plain_rune c) (list_all is_plain_rune cs) h in
      ap (λ (r : Reader). reads vars r (cs ++ rest)) (plain_rune p c (c == 39) (c == 36) two.0)
      ∙ in_plain (with_rune p c) cs rest two.1
      ∙ ap (λ (l : List Piece). reads vars (reader l Plain) rest) (append_assoc p (piece.Rune c ∷ []) (rune_pieces cs))

  plain_part : (text rest : List ℕ) → list_all is_plain_rune text ≡ true → text_pieces vars
      (text ++ rest) ≡ and_then (rune_pieces text) (text_pieces vars rest)
  plain_part text rest h = ap (ended vars) (in_plain [] text rest h) ∙ rest_after (rune_pieces text) rest

  -- ---- variables

  in_name : (p : List Piece) (begun name rest : List ℕ) → list_all is_name_rune name ≡ true → begins is_name_rune
      rest ≡ false → told (reader p (Name begun)) (name ++ rest) ≡ told (reader (p ++ named vars (begun ++ name)) Plain)
      rest
  in_name p begun [] [] h g = ap (λ (l : List ℕ). Some (p ++ named vars l)) (sym (append-nil begun))
  in_name p begun [] (c ∷ cs) h g =
      ap (λ (t : Bool). told (cond t (reader p (Name (begun ++ c ∷ []))) (plain (p ++ named vars begun) c)) cs) g
      ∙ ap (λ (l : List ℕ). told (plain (p ++ named vars l) c) cs) (sym (append-nil begun))
  in_name p begun (c ∷ cs) rest h g =
      let two = and_parts (is_name_rune c) (list_all is_name_rune cs) h in
      ap (λ (t : Bool). told (cond t (reader p (Name (begun ++ c ∷ []))) (plain (p ++ named vars begun) c))
      (cs ++ rest)) two.0
      ∙ in_name p (begun ++ c ∷ []) cs rest two.1 g
      ∙ ap (λ (l : List ℕ). told (reader (p ++ named vars l) Plain) rest) (append_assoc begun (c ∷ []) cs)

  first_of_name : (c : ℕ) (rest : List ℕ) (b d : Bool) → not b ≡ true → d ≡ true →
      told (cond b (reader (piece.Late (late.Group (c - 48)) ∷ []) Plain)
      (cond d (reader [] (Name (c ∷ []))) (plain (with_rune [] 36) c))) rest ≡ told (reader [] (Name (c ∷ []))) rest
  first_of_name c rest true d h g = absurd (false≢true h)
  first_of_name c rest false true h g = refl
  first_of_name c rest false false h g = absurd (false≢true g)

  name_part : (name rest : List ℕ) → is_name name ≡ true → begins is_name_rune rest ≡ false → text_pieces vars
      (36 ∷ name ++ rest) ≡ and_then (named vars name) (text_pieces vars rest)
  name_part [] rest h g = absurd (false≢true h)
  name_part (c ∷ cs) rest h g =
      let two = and_parts (not (is_digit c)) (list_all is_name_rune (c ∷ cs)) h in
      let all = and_parts (is_name_rune c) (list_all is_name_rune cs) two.1 in
      first_of_name c (cs ++ rest) (is_digit c) (is_name_rune c) two.0 all.0
      ∙ in_name [] (c ∷ []) cs rest all.1 g
      ∙ rest_after (named vars (c ∷ cs)) rest

  group_part : (digit : ℕ) (rest : List ℕ) → is_digit digit ≡ true → text_pieces vars
      (36 ∷ digit ∷ rest) ≡ and_then (piece.Late (late.Group (digit - 48)) ∷ []) (text_pieces vars rest)
  group_part digit rest h =
      ap (λ (t : Bool). told (cond t (reader (piece.Late (late.Group (digit - 48)) ∷ []) Plain)
      (cond (is_name_rune digit) (reader [] (Name (digit ∷ []))) (plain (with_rune [] 36) digit))) rest) h
      ∙ rest_after (piece.Late (late.Group (digit - 48)) ∷ []) rest

  no_digit : (c : ℕ) → is_name_rune c ≡ false → is_digit c ≡ false
  no_digit c h =
      let no_underscore = or_parts (is_digit c || is_in_range 65 90 c || is_in_range 97 122 c) (c == 95) h in
      let no_small = or_parts (is_digit c || is_in_range 65 90 c) (is_in_range 97 122 c) no_underscore.0 in
      (or_parts (is_digit c) (is_in_range 65 90 c) no_small.0).0

  no_name : (c : ℕ) (rest : List ℕ) (b d : Bool) → b ≡ false → d ≡ false →
      told (cond b (reader (piece.Late (late.Group (c - 48)) ∷ []) Plain)
      (cond d (reader [] (Name (c ∷ []))) (plain (with_rune [] 36) c))) rest ≡ told (plain (with_rune [] 36) c) rest
  no_name c rest true d h g = absurd (false≢true (sym h))
  no_name c rest false true h g = absurd (false≢true (sym g))
  no_name c rest false false h g = refl

  dollar_part : (rest : List ℕ) → begins is_name_rune rest ≡ false → text_pieces vars
      (36 ∷ rest) ≡ and_then (piece.Rune 36 ∷ []) (text_pieces vars rest)
  dollar_part [] h = refl
  dollar_part (c ∷ cs) h = no_name c cs (is_digit c) (is_name_rune c) (no_digit c h) h
      ∙ rest_after (piece.Rune 36 ∷ []) (c ∷ cs)

pub reads_parts : ReadsParts
reads_parts = record {
  nothing = λ vars. refl;
  quoted = quoted_part;
  plain = plain_part;
  name = name_part;
  group =
      group_part;
  dollar = dollar_part;
}

-- ---- whole arguments

trimmed_quote : (text : List ℕ) → trimmed (text ++ 39 ∷ []) ≡ text ++ 39 ∷ []
trimmed_quote text =
    ap (λ (n : ℕ). take (length (text ++ 39 ∷ []) - n) (text ++ 39 ∷ []))
    (ap (prefix_len is_blank) (reverse-append text (39 ∷ [])))
    ∙ take_all (length (text ++ 39 ∷ []) - 0) (text ++ 39 ∷ []) (omega arith)

alone : (vars : List Var) (text : List ℕ) (pieces : List Piece) → text_pieces vars (text ++ []) ≡ and_then pieces
    (Some []) → text_pieces vars text ≡ Some pieces
alone vars text pieces e = ap (text_pieces vars) (sym (append-nil text))
    ∙ e ∙ ap (λ (l : List Piece). Some l) (append-nil pieces)

pub reads_texts : ReadsTexts
reads_texts = record {
  quoted = λ vars text. ap (text_pieces vars) (trimmed_quote (39 ∷ doubled text))
      ∙ alone vars (quoted_text text) (rune_pieces text) (quoted_part vars text [] refl);
  plain = λ vars text h e. ap (text_pieces vars) e ∙ alone vars text (rune_pieces text) (plain_part vars text [] h);
}
