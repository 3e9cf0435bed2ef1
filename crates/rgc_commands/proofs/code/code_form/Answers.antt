use Rattle.std.proofs.Common.{◌≡◌, ◌∙◌, ℕ, List, Bool, true, refl, sym, subst}
use Rattle.std.specs.Prelude.{if◌then◌else◌}
use Rattle.rgc_commands.specs.Titles.{is_title}
use Rattle.rgc_commands.specs.Code.{listing, header}
use Rattle.rgc_commands.proofs.code.code_form.Goals as goal

pub returns-then-branch-clause-form : goal.returns-then-branch-clause-form
returns-then-branch-clause-form c =
    let n = c.title_of-name.result.now in
    let traced = c.args.settings.now.is_traced in
    let named = c.title_of-name.ensures in
    let in_c : header n traced ≡ (if c.args.settings.now.is_c then header n traced else listing) =
    subst (λ (b : Bool). header n traced ≡ (if b then header n traced else listing)) (sym c.if-not-settings.false) refl in
    let titled : is_title n ≡ true = sym c.in_ok-is_title.ensures ∙ c.if-branch.true in
    record {
      is = subst (λ (t : List ℕ). header n traced ≡ (if c.args.settings.now.is_c then header t traced else listing)) named in_c;
      titled = λ is_c. subst (λ (t : List ℕ). is_title t ≡ true) named titled;
    }
