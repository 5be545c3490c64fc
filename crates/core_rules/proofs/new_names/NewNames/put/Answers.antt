use Rattle.std.proofs.Common.{◌≡◌, ℕ, List, [], ◌∷◌, ◌++◌, false, ap, ◌∙◌}
use Rattle.core_rules.specs.NewNames.{is_among}
use Rattle.core_rules.proofs.Named.{texts, put_last}
use Rattle.core_rules.proofs.new_names.NewNames.put.Goals as goal

pub returns : goal.returns
returns c =
    let name : c.in_ok-name.name.items ≡ c.args.name.now = c.in_ok-name.ensures.items in
    let new : is_among c.in_ok-name.name.items (texts c.self.inside.names.keys) ≡ false =
    ap (λ (n : List ℕ). is_among n (texts c.self.inside.names.keys)) name ∙ ap (is_among c.args.name.now) c.self.view_is
    ∙ c.requires
    in
    rw (← c.self.view_is)
    (ap texts c.in_ok-insert.ensures.keys
    ∙ put_last c.self.inside.names.keys c.in_ok-name.name new
    ∙ ap (λ (n : List ℕ). texts c.self.inside.names.keys ++ n ∷ []) name)
