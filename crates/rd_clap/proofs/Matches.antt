-- What is read of the parser's matches.
use Rattle.std.proofs.Common.{◌≡◌, List, Option, Some, None, refl, sym, ◌∙◌, ap, ap₂, subst}
use Rattle.std.specs.Prelude.{Box, option_map}
use Rattle.std.specs.Box.{box_value}
use Rattle.clap.specs.Matches.{subcommand_name_of}
use Rattle.clap.specs.Simple.{subcommand_rows, subcommand_rows_of}
use Rattle.clap.specs.Walk.{Row, Text}
use Rattle.clap.specs.declared.parser.matches.ArgMatches.{ArgMatches}
use Rattle.clap.specs.declared.parser.matches.ArgMatches.TheViews.{out-ArgMatches, out-SubCommand}
use Rattle.clap.specs.declared.parser.matches.SubCommand.{SubCommand}
use Rattle.rd_words.specs.Words.{Reading, IsReading, IsReadingOf}
use Rattle.rd_clap.specs.Found.{AreFound, command_in, found_in}

name_is : {Z : Type 0} (o : Option (Box SubCommand Z)) → option_map (λ b. (out-SubCommand (box_value b)).name.now) o ≡ option_map (λ p. p.0) (subcommand_rows o)
name_is None = refl
name_is (Some b) = refl

none_is : (o : Option (Text × List Row)) → None ≡ option_map (λ p. p.1) o → o ≡ None
none_is None e = refl
none_is (Some p) e = absurd (cc)

pair_is : (o : Option (Text × List Row)) (name : Text) (rows : List Row) → Some name ≡ option_map (λ p. p.0) o → Some rows ≡ option_map (λ p. p.1) o → o ≡ Some (name, rows)
pair_is None name rows e k = absurd (cc)
pair_is (Some p) name rows e k =
    let one : p.0 ≡ name = cc in
    let two : p.1 ≡ rows = cc in
    ap₂ (λ x y. Some (x, y)) one two

-- nothing was found
pub finds_none : (m : ArgMatches) → None ≡ option_map (λ p. p.1) (subcommand_rows_of m) → None ≡ found_in (subcommand_rows_of m)
finds_none m e = sym (ap found_in (none_is (subcommand_rows_of m) e))

-- a command was found, with these rows
pub finds_command : (m : ArgMatches) (name : Text) (rows : List Row) (o : Option Reading) → Some name ≡ subcommand_name_of m → Some rows ≡ option_map (λ p. p.1) (subcommand_rows_of m) →
    o ≡ command_in name rows → o ≡ found_in (subcommand_rows_of m)
finds_command m name rows o e k h =
    h ∙ sym (ap found_in (pair_is (subcommand_rows_of m) name rows (e ∙ name_is (out-ArgMatches m).subcommand) k))

-- what words ask for is read of them again
pub asked_is_read : (words : List Text) (r : Reading) (m : ArgMatches) (o : Option Reading) → IsReading words r → AreFound r m → o ≡ found_in (subcommand_rows_of m) → IsReadingOf words o
asked_is_read words r m o is found e = subst (IsReadingOf words) (sym (e ∙ found)) is

pub asks : (words : List Text) (r : Reading) → IsReading words r → (x : Reading) × IsReading words x
asks words r is = (r, is)
