use Rattle.std.proofs.Common.{◌≡◌, ◌∙◌, true, ap, refl, map}
use Rattle.std.specs.Prelude.{string_bytes}
use Rattle.std.proofs.lemmas.Result.{IfErr-weaker, IfOk-weaker}
use Rattle.clap.specs.Simple.{App, is_simple, subcommand_of}
use Rattle.clap.specs.Takes.{takes}
use Rattle.rd_clap.specs.Found.{found_in}
use Rattle.rd_clap.specs.Program.{program_app}
use Rattle.rd_clap.proofs.Lines.{reading_is_found}
use Rattle.rd_clap.proofs.Whole.{reading_is_taken}
use Rattle.rd_clap.proofs.parsed.Goals as goal

simple : is_simple program_app ≡ true
simple = refl

pub returns : goal.returns
returns c =
    let app_is = c.in_ok-commands.ensures.app in
    let parse = c.try_get_matches_from in
    record {
      found = IfOk-weaker parse.result _ _ (λ m h. ap found_in ((h (ap is_simple app_is ∙ simple)).1 ∙ ap (λ (a : App). subcommand_of a (map string_bytes c.args.words.now)) app_is) ∙ reading_is_found (map string_bytes c.args.words.now) _ c.requires) parse.ensures.matches;
      refused = IfErr-weaker parse.result _ _ (λ e h. h (ap (λ (a : App). takes a (map string_bytes c.args.words.now)) app_is ∙ reading_is_taken (map string_bytes c.args.words.now) _ c.requires)) parse.ensures.passes;
    }
