use Rattle.std.proofs.Common.{◌≡◌}
use Rattle.blot_decimal.specs.Meaning.{price_of}
use Rattle.blot_decimal.proofs.ReadLemmas.{price_of-limited, reads_price}
use Rattle.blot_decimal.proofs.price.Price.read.Goals as goal

pub returns : goal.returns
returns c =
    let limit = price_of-limited c.args.text.now in
    let is : c.from_size.result ≡ price_of c.args.text.now = cc in
    let laws = reads_price c.args.text.now c.from_size.result is in
    record {
      meaning = is;
      value = laws.value;
      format = laws.kind.format;
      too_fine = laws.kind.too_fine;
      too_large = laws.kind.too_large;
      leading_zeros = laws.leading_zeros;
      trailing_zeros = laws.trailing_zeros;
    }
