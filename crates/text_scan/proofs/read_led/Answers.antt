use Rattle.text_scan.proofs.Led.{not-led, led_numbers}
use Rattle.text_scan.proofs.read_led.Goals as goal

pub returns-then-not-starts_with : goal.returns-then-not-starts_with
returns-then-not-starts_with c = not-led _ c.requires.high _ _ c.requires.there c.if-not-starts_with.ensures.value

pub returns : goal.returns
returns c = led_numbers _ c.requires.high c.args.text.now c.args.at c.if-not-starts_with.ensures.value _ c.read_numbers.ensures
